pub mod Places
pub mod Searches
pub mod Chosen
pub mod Laws
