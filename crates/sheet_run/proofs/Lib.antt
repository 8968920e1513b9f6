-- What the proofs of the functions cite.
pub mod Cutting
pub mod Laws
pub mod LineRuns
pub mod Underway
pub mod Whole
