-- What follows from the definitions.
pub mod Below
pub mod Sound
pub mod Shallow
pub mod NameTexts
pub mod AcceptedPaths
