pub mod IdlePast
