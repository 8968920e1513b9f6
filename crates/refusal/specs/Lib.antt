pub mod Refusal
pub mod Causes
pub mod Laws
