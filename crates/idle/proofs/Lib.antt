pub mod Twins
pub mod Run
pub mod Theorems
pub mod EachNumber
pub mod Apart
