pub mod RowMajor
pub mod Rules
pub mod Copies
pub mod Reuse
pub mod Walked
