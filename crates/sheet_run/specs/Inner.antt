-- Definitions that only inner contracts need.
pub mod Asked
pub mod Running
