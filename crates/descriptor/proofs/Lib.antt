pub mod Digits
pub mod Theorems
