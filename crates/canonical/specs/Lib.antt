pub mod Rule
pub mod Printed
pub mod Canonical
pub mod Run
