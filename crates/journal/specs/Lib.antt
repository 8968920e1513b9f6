pub mod Disk
pub mod Draft
pub mod Inner
pub mod Journal
