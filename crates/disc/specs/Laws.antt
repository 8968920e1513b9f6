-- What follows from the definitions.
pub mod Orders
pub mod TextLaws
