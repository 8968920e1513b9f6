-- Definitions that only inner contracts need.
pub mod Behind
pub mod Clip
pub mod Drafted
