pub mod TilePlaces
