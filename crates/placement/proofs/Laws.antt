-- What follows from the definitions.
pub mod AtTheLimit
pub mod Complete
pub mod Exactly
pub mod Offsets
pub mod Passes
pub mod Regions
pub mod Sound
pub mod Theorems
