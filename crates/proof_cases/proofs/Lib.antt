pub mod Cases
pub mod TimedCases
