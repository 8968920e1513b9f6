pub mod Replies
pub mod Laws
