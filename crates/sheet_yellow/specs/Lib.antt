pub mod Yellow
pub mod Columns
pub mod YellowLaws
pub mod YellowCases
