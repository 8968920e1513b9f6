pub mod Shapes
pub mod Tables
pub mod Theorem
pub mod Inner
