-- Definitions that only inner contracts need.
pub mod Accepted
pub mod Depths
pub mod Pairs
pub mod Patch
pub mod WellFormed
