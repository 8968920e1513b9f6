pub mod Ledger
pub mod Lists
pub mod Runs
pub mod Spared
pub mod Theorem
pub mod Inner
