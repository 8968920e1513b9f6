pub mod Dol
pub mod Inner
pub mod Laws
pub mod Program
pub mod Sections
