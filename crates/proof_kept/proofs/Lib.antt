pub mod Scans
pub mod Forgets
