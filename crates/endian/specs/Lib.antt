pub mod Bytes
pub mod Laws
