-- What follows from the definitions.
pub mod DolFacts
pub mod DolVectors
pub mod ProgramLaws
pub mod ProgramVectors
pub mod SectionLaws
