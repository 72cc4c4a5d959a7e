pub mod Cells
pub mod Modes
