-- What the proofs of the functions cite.
pub mod Asked
pub mod Records
