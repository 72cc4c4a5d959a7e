pub mod Ways
pub mod Falling
pub mod Nears
pub mod Locks
pub mod Buttons
pub mod Runs
