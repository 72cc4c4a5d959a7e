pub mod SealAnswers
pub mod SealLaws
pub mod SealedRuns
pub mod SealCases
