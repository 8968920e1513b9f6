-- Definitions that only contracts inside the crate cite.
pub mod Earlier
