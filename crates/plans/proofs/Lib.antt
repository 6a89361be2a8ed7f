pub mod Search
pub mod Plans
pub mod Theorems
pub mod Passes
