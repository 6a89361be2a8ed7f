pub mod Runs
pub mod Levels
pub mod Reaching
pub mod Leaving
