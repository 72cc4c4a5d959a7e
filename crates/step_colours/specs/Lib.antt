pub mod Showable
pub mod Turn
