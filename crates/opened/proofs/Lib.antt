-- What the proofs of the functions cite.
pub mod ByKind
pub mod Discs
pub mod Fewer
pub mod Heads
pub mod Laws
pub mod Opens
pub mod OwnedRegions
pub mod Stages
pub mod Tests
pub mod UsedRegions
pub mod Words
