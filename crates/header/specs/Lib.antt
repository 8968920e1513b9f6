pub mod Fields
pub mod Header
pub mod Inner
pub mod Laws
pub mod Verdicts
