pub mod Writing
pub mod Sheet
