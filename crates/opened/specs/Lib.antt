pub mod Answers
pub mod Faults
pub mod Inner
pub mod Opening
