pub mod Extremes
pub mod Metres
pub mod Stated
pub mod SheetCases
