pub mod Cells
pub mod Greens
pub mod Passes
pub mod OnRoad
