pub mod Pair
pub mod Endings
pub mod Run
