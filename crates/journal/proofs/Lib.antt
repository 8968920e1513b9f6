-- What the proofs of the functions cite.
pub mod Behind
pub mod Brought
pub mod Carried
pub mod Copies
pub mod Drafts
pub mod Fitting
pub mod Gates
pub mod Heads
pub mod Laws
pub mod Loose
pub mod Noted
pub mod Numbers
pub mod OnDisk
pub mod Owned
pub mod Recovered
pub mod Sums
pub mod Torn
