pub mod Parts
pub mod Prints
