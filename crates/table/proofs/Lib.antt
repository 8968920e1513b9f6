-- What the proofs of the functions cite.
pub mod Backward
pub mod BlockLaws
pub mod Chart
pub mod ChildLaws
pub mod Comparing
pub mod Cuts
pub mod Ended
pub mod Judging
pub mod Lengths
pub mod NamePlaces
pub mod Nodes
pub mod PathLaws
pub mod RowLaws
pub mod Texts
pub mod UnitPlaces
pub mod Unlike
pub mod Walking
