-- What the proofs of the functions cite.
mod Names
mod Measuring
mod Drafting
mod Fronts
mod Going
mod Fitted
mod Holding
mod Limits
mod Lists
mod Sharing
mod Written
