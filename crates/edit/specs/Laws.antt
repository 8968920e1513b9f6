-- What follows from the definitions.
pub mod AccountLaws
pub mod RewrittenTable
