pub mod Change
pub mod Starts
pub mod Admitted
pub mod KeptValid
pub mod Timed
