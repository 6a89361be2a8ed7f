pub mod Questions
pub mod Cards
pub mod Loads
