pub mod BoardRuns
pub mod ProperStates
