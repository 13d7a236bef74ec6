pub mod Carries
pub mod Laws
pub mod Writes
