pub mod Body
pub mod Told
