pub mod GroupMarks
pub mod Seventh
