pub mod Units
pub mod Table
pub mod Faults
pub mod Lookup
pub mod Insert
pub mod Inner
