pub mod Ends
pub mod Stays
