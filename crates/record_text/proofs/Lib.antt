-- What the proofs of the functions cite.
pub mod TextLaws
pub mod WorkedText
