pub mod Loads
pub mod Checks
pub mod Lookups
