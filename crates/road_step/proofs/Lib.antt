pub mod Cells
pub mod GreenGroups
pub mod Passes
pub mod Roads
