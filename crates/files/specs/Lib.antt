pub mod States
pub mod Directories
