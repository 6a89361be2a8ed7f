pub mod Numbers
pub mod Least
pub mod Bytes
pub mod Pattern
pub mod Runs
pub mod Counted
