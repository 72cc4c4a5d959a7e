pub mod StateOf
pub mod TimesValid
