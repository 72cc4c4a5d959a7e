pub mod Faults
pub mod Refutations
pub mod Dark
