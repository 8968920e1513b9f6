-- Definitions that only the tests need.
pub mod Done
pub mod Failure
