pub mod First
pub mod TraceCases
pub mod Lines
