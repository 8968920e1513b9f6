-- What follows from the definitions.
pub mod FieldTests
pub mod Order
pub mod RoundTrip
pub mod Tiling
pub mod Vectors
