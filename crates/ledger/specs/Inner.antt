-- Definitions that only inner contracts need.
pub mod Files
pub mod Told
