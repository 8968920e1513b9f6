pub mod Decimal
pub mod Inner
pub mod Laws
pub mod Lines
pub mod Listing
