pub mod WaitCases
pub mod Parts
pub mod Reached
