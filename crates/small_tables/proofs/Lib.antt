pub mod Laws
pub mod Writing
pub mod Answering
