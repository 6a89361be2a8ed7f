pub mod Judgement
pub mod Verdict
pub mod Plain
pub mod Run
