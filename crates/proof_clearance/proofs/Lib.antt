pub mod Shown
pub mod Greens
pub mod VehicleColours
pub mod Stopped
pub mod Vehicles
pub mod Pedestrians
