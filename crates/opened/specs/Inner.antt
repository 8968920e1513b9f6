-- Definitions that only inner contracts need.
pub mod Backed
pub mod Collecting
pub mod Disc
pub mod Owned
pub mod Parts
pub mod Prepared
pub mod Told
