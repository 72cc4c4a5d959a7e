pub mod Operations
pub mod CabinetRuns
pub mod CabinetAnswers
