pub mod Sites
pub mod PartOne
