pub mod Some
pub mod Locks
