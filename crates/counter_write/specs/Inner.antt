pub mod Desk
pub mod Making
pub mod Real
