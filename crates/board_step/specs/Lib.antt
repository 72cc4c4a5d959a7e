pub mod StepCall
pub mod Accepted
