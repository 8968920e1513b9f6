-- Definitions that only inner contracts need.
pub mod Span
