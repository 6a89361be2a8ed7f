pub mod Sizes
pub mod Alike
pub mod Theorems
