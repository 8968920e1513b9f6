-- Definitions that only inner contracts need.
pub mod Around
pub mod Fits
pub mod Writing
