pub mod Sections
pub mod Entries
pub mod Acceptance
pub mod Refusals
pub mod Places
pub mod WaitBound
pub mod Largest
