pub mod TimesLaws
pub mod TimesRead
pub mod Written
