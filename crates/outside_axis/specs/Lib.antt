pub mod Straying
pub mod Clauses
