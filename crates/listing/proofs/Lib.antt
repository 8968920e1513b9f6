-- What the proofs of the functions cite.
pub mod Answers
pub mod Chains
pub mod Digits
pub mod Gaps
pub mod Joining
pub mod LineParts
pub mod Paths
pub mod Tables
