pub mod Below
pub mod Numbering
pub mod Numbers
pub mod Spaces
pub mod Cards
