pub mod Idle
pub mod Run
pub mod Clauses
pub mod Admission
