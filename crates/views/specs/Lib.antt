pub mod Lies
pub mod inner
