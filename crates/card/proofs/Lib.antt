pub mod Lists
pub mod Listed
pub mod ReadBack
pub mod Marks
pub mod Admitted
pub mod Theorems
pub mod Within
pub mod EachNumber
