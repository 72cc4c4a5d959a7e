pub mod Same
pub mod Elsewhere
pub mod Put
