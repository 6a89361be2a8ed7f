pub mod Laws
pub mod KnownKinds
