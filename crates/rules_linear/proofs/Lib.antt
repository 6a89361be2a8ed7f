pub mod Times
pub mod Runs
pub mod Levels
pub mod Cells
pub mod Reaching
pub mod Leaving
