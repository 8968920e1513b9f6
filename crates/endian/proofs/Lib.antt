-- What the proofs of the functions cite.
pub mod Parts
pub mod Compared
