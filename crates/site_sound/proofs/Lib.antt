pub mod Ring
pub mod Rows
