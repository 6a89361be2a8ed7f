pub mod Arrays
pub mod Holdings
