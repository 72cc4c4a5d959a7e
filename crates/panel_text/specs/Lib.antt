pub mod Text
pub mod Reader
pub mod Lines
