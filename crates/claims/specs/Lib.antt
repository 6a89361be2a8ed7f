pub mod Claims
pub mod Outcome
pub mod Rows
pub mod Run
