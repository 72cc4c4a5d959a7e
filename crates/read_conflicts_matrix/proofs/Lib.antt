pub mod TileBits
pub mod MatrixRows
pub mod Kept
