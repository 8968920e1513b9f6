pub mod Edited
pub mod Inner
pub mod Theorem
