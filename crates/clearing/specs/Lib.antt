pub mod Clearing
pub mod Inner
pub mod Theorem
