pub mod Asked
pub mod TableAnew
pub mod Inner
pub mod Laws
