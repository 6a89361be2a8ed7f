pub mod Pattern
pub mod Bits
