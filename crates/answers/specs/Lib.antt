pub mod Refusals
pub mod Pinned
