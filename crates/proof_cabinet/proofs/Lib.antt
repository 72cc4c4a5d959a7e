pub mod Retimings
pub mod Placed
pub mod Runs
pub mod Apart
pub mod Shows
pub mod Answers
pub mod Shapes
