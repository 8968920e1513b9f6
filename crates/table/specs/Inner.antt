-- Definitions that only inner contracts need.
pub mod After
pub mod Blocks
pub mod Ends
pub mod Fields
pub mod Held
pub mod ParentsIn
pub mod Read
pub mod Reading
pub mod Steps
pub mod Texts
pub mod Words
