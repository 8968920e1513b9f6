-- What the proofs of the functions cite.
pub mod Accounts
pub mod Behind
pub mod Drafts
pub mod Laws
pub mod Settled
