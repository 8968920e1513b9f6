-- Definitions that only inner contracts need.
pub mod Accounting
pub mod Decides
pub mod Decision
pub mod Files
pub mod Filling
pub mod Making
pub mod Walk
