pub mod Layout
pub mod Written
pub mod Theorem
pub mod Inner
