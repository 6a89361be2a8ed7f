pub mod Sources
pub mod Rules
