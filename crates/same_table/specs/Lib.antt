pub mod Trees
pub mod Unread
pub mod Theorem
