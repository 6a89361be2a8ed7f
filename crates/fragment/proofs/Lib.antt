pub mod Inside
pub mod Back
pub mod Theorems
