pub mod Elements
pub mod Placings
pub mod Rows
