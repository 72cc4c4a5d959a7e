pub mod Bytes
pub mod Room
pub mod Checks
pub mod Turned
pub mod Steps
pub mod Rows
