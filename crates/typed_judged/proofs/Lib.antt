pub mod Theorems
pub mod Long
pub mod InNumbers
