pub mod Digits
pub mod Ways
pub mod Slow
