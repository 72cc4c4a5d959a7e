pub mod Examples
pub mod WaitCases
