pub mod Begun
pub mod Ends
