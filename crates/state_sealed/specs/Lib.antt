pub mod Sealed
pub mod SealedLaws
