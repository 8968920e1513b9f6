-- Definitions that only inner contracts need.
pub mod Entering
pub mod Flat
pub mod Growing
pub mod Growth
pub mod Inserting
pub mod Kind
pub mod Measure
pub mod Patching
pub mod Record
pub mod Standing
pub mod Valid
pub mod Writing
