pub mod Plans
pub mod Passes
