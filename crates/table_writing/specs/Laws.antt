-- What follows from the definitions.
pub mod Accepted
pub mod Vectors
