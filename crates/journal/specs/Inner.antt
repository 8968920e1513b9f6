pub mod Carried
pub mod Head
pub mod Noted
