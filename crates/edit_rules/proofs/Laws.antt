-- What follows from the definitions.
pub mod Accepted
pub mod Behind
pub mod OwnCauses
pub mod PlaceTests
pub mod Promised
pub mod Puts
pub mod Fills
pub mod MadeTree
pub mod Troubles
pub mod Making
pub mod InsertNumber
pub mod MakeNumber
pub mod Names
pub mod NoMaximum
pub mod Orders
