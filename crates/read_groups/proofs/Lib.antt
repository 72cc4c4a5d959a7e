pub mod BadGroups
pub mod GroupChecks
pub mod PhaseSets
