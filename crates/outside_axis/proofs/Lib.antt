pub mod Ends
pub mod Straying
pub mod Steps
pub mod Packed
