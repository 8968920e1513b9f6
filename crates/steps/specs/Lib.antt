pub mod Parts
pub mod Places
pub mod Promise
pub mod Theorem
pub mod Inner
