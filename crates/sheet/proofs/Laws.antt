-- What follows from the definitions.
pub mod Asked
pub mod CheckedWhole
pub mod ReadsBack
