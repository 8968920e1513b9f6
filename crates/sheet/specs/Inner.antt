-- Definitions that only inner contracts need.
pub mod Left
pub mod Read
