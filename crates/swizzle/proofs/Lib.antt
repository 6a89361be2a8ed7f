pub mod Xor
pub mod Laws
pub mod Widths
pub mod Theorems
