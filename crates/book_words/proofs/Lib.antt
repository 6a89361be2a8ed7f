pub mod Laws
pub mod Spread
