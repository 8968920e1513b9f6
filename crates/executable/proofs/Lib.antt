-- What the proofs of the functions cite.
pub mod Reading
pub mod Turns
