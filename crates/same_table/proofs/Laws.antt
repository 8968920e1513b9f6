-- What follows from the definitions.
pub mod WholeTree
pub mod TablesTell
pub mod SafeChange
pub mod Tabled
pub mod WrittenTable
pub mod FixedByTree
pub mod GrowthApart
pub mod SecondRewrite
pub mod UnreadTable
pub mod UnreadImage
pub mod UnreadFields
pub mod UnreadEdits
