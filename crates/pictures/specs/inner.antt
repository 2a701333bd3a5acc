pub mod GoodScene
pub mod Steps
pub mod Told
