pub mod Digits
pub mod OnM
pub mod Approved
pub mod Turned
pub mod Onto
pub mod Theorems
pub mod Figures
