pub mod Made
pub mod Given
pub mod Empties
pub mod Read
pub mod Theorems
pub mod Holdings
