pub mod Family
pub mod Header
pub mod Where
