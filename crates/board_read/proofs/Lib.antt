pub mod SectionAnswers
