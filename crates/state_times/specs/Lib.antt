pub mod TimeRows
pub mod TimesLayout
