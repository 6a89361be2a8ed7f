pub mod Weighing
pub mod Cells
pub mod Cards
