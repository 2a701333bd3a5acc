pub mod Fault
pub mod Order
pub mod Good
