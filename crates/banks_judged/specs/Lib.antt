pub mod Bank
pub mod Columns
