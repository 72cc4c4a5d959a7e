pub mod Shown
pub mod Minimum
pub mod Walks
