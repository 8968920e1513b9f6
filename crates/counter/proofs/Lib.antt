-- What the proofs of the functions cite.
pub mod Counts
pub mod HeaderBytes
pub mod Parts
pub mod Records
pub mod Refusals
