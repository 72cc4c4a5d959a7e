pub mod Crossed
pub mod Presses
