-- Definitions that only inner contracts need.
pub mod Marks
pub mod Stretches
pub mod Tried
