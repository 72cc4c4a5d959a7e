pub mod Extremes
pub mod Sheet
pub mod SheetCases
