-- What follows from the definitions.
pub mod Stored
pub mod Stays
