pub mod ProperTimes
pub mod Proper
pub mod Answers
pub mod BoardRuns
