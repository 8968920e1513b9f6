-- What follows from the definitions.
pub mod Same
pub mod Passed
pub mod Orders
pub mod Remainders
pub mod Moved
pub mod NewTeams
