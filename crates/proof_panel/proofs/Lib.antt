pub mod AfterStep
pub mod Found
pub mod Steps
pub mod Inputs
pub mod Lengths
pub mod WhyCases
pub mod Refusals
