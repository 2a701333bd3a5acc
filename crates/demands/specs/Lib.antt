pub mod Call
pub mod Numbers
pub mod Places
pub mod Outcome
pub mod Body
pub mod Same
pub mod Example
pub mod Met
