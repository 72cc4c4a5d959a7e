pub mod Shown
pub mod Sizes
pub mod Unclosed
