pub mod Inner
pub mod Paths
pub mod Tree
