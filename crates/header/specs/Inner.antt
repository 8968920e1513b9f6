-- Definitions that only inner contracts need.
pub mod Bounds
pub mod Judged
pub mod Writing
