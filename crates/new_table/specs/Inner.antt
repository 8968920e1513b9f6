-- Definitions that only inner contracts need.
pub mod Cuts
pub mod Drafts
pub mod Sizes
pub mod Steps
