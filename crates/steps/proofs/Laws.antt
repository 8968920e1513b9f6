-- What follows from the definitions.
pub mod Parts
pub mod WhollyFree
pub mod FreePlace
pub mod Parting
pub mod Promised
pub mod Splitting
pub mod ThreeCalls
pub mod CutsKept
pub mod OwnParts
