pub mod Swizzle
pub mod Mode
