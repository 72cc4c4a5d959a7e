pub mod Lines
pub mod TraceCases
pub mod Tails
