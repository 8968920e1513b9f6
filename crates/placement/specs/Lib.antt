pub mod Places
pub mod Placement
pub mod Theorem
pub mod Inner
