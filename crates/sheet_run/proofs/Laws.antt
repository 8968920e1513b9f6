-- What follows from the definitions.
pub mod AfterSheet
pub mod BadLineAnywhere
pub mod CallsInParts
pub mod CallsOfLines
pub mod CutAtLast
pub mod InParts
pub mod LinesInTurn
pub mod Orders
