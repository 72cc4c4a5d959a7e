pub mod Groups
pub mod Minimum
pub mod Walks
pub mod Lights
pub mod Lamps
