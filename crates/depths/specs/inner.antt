pub mod Inputs
pub mod Rounds
