pub mod Shifts
pub mod Numbers
pub mod Bursts
pub mod CrcCases
