pub mod Kinds
pub mod Layouts
pub mod Mma
pub mod Forms
