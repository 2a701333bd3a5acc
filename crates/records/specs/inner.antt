pub mod Keys
pub mod Raw
pub mod Rows
pub mod Stage
pub mod Named
