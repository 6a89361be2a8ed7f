pub mod Check
pub mod Bytes
pub mod Parts
pub mod Laid
pub mod Back
pub mod Theorems
pub mod Unused
pub mod Exactly
