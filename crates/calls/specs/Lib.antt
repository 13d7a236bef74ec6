pub mod Loaded
pub mod Plans
