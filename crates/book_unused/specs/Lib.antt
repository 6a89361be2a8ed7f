pub mod Unused
