pub mod Stepping
pub mod Taking
pub mod Placing
pub mod Rows
pub mod Asked
