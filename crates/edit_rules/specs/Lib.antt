pub mod Change
pub mod Edits
pub mod Promise
pub mod Inner
