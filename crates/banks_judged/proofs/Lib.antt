pub mod Groups
pub mod Pieces
pub mod Theorems
