pub mod Laws
pub mod StateCases
pub mod KnownBytes
pub mod Written
