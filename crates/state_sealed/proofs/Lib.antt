pub mod Written
pub mod SealedLaws
