pub mod Ready
pub mod Keeping
