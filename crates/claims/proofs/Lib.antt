pub mod Rows
pub mod Steps
pub mod Run
pub mod Theorems
pub mod Apart
