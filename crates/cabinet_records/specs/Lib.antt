pub mod Cabinet
pub mod CabinetLaws
pub mod CabinetCases
