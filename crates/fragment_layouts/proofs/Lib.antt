pub mod Placed
pub mod Approved
