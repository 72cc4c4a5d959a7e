pub mod CabinetCases
pub mod Checks
pub mod Outputs
pub mod CabinetLaws
