pub mod Listings
pub mod Columns
pub mod Adding
pub mod Rows
