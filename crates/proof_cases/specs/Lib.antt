pub mod Traces
pub mod Cases
pub mod TimedCases
