pub mod Rearranged
pub mod inner
