pub mod Shift
pub mod Stated
pub mod Entries
pub mod YellowLaws
pub mod YellowCases
