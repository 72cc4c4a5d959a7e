pub mod Streams
pub mod Flow
pub mod Results
pub mod Steps
pub mod Runs
pub mod Refusals
pub mod RoadCases
