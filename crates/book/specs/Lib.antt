pub mod Bytes
pub mod Block
pub mod Book
