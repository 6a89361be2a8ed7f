pub mod Doubt
pub mod Clauses
