pub mod Master
pub mod Asked
pub mod Theorem
