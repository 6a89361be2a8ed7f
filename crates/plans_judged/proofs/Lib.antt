pub mod Theorems
pub mod Plain
pub mod InNumbers
pub mod Run
