pub mod Inner
pub mod Rows
