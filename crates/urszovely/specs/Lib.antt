pub mod Answers
pub mod Canonical
pub mod Book
pub mod Plans
