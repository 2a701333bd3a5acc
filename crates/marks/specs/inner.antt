pub mod Grounds
pub mod Marks
