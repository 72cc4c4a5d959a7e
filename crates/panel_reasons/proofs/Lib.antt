pub mod Holdings
pub mod Passing
