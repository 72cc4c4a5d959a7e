pub mod Layout
pub mod StateCases
