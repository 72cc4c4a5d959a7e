pub mod Sensed
