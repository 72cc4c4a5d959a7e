pub mod Modes
pub mod Words
