pub mod Lines
pub mod Run
pub mod Theorem
pub mod Inner
