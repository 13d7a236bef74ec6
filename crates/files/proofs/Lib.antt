pub mod Lowered
pub mod Listing
