pub mod Text
pub mod Beginning
pub mod Meaning
pub mod Promise
pub mod Writing
pub mod Machine
pub mod Quoted
