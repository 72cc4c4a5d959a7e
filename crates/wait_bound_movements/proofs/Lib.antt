pub mod Reached
pub mod Taken
