pub mod Accepted
pub mod Lookups
