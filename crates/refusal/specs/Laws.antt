-- What follows from the definitions.
pub mod Chains
pub mod Tests
