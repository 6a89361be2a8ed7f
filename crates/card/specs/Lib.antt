pub mod Lists
pub mod Limits
pub mod Card
pub mod Admission
pub mod Packed
