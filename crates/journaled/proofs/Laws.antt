-- What follows from the definitions.
pub mod AnyEvents
pub mod Changes
pub mod Ended
pub mod Left
pub mod Stated
