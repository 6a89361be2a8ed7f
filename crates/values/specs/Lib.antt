pub mod Rows
pub mod Values
pub mod Registers
pub mod Holdings
