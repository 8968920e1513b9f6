-- Definitions that only inner contracts need.
pub mod Before
pub mod Counted
pub mod Digits
pub mod Found
pub mod Halves
pub mod Scan
pub mod Sort
pub mod UsedSpace
pub mod Words
