pub mod RoadAnswers
