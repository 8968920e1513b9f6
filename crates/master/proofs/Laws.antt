-- What follows from the definitions.
pub mod Written
pub mod Opens
pub mod AllListsFollow
pub mod Parents
pub mod NewPaths
pub mod NewPathsFiles
pub mod Order
pub mod OrderNames
pub mod OrderEntries
pub mod FoundEntries
pub mod Siblings
pub mod Found
pub mod WishTree
