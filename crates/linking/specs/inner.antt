pub mod Links
pub mod Bytes
