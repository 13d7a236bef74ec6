pub mod Readables
pub mod Places
mod Saved
mod Halves
mod Scattered
