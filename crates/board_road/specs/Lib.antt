pub mod RoadCall
