pub mod Digits
pub mod Agree
pub mod Cut
pub mod Strides
pub mod Placed
pub mod Back
pub mod Theorems
pub mod Approved
