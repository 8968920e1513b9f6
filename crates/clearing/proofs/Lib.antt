-- What the proofs of the functions cite.
pub mod Laws
pub mod Marks
pub mod Stretches
pub mod Trying
pub mod Splitting
pub mod Own
pub mod Free
pub mod Answering
pub mod Asked
