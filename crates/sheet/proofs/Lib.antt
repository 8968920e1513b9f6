-- What the proofs of the functions cite.
pub mod Laws
pub mod Texts
pub mod Rows
pub mod Stepping
pub mod Judged
pub mod Paths
