pub mod TurnedBits
