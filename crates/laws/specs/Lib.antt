-- Folds over the indices below a number, little-endian numbers and bits, and text as bytes: the vocabulary of the rules.
pub mod Folds
pub mod Bytes
pub mod Ascii
pub mod Decimal
