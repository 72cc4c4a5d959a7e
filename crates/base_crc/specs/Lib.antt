pub mod Crc
pub mod CrcLaws
pub mod CrcCases
