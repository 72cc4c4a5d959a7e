pub mod SealLaws
pub mod SealAnswers
pub mod SealedRuns
pub mod SealCases
