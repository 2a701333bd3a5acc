pub mod Orientation
pub mod Facings
pub mod Told
