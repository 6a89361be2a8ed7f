pub mod PlainDemand
pub mod EachNumber
