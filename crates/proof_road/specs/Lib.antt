pub mod Roads
pub mod RoadCases
