pub mod Entries
pub mod Turns
pub mod Ring
pub mod RunningOrder
