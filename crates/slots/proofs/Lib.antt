pub mod Reading
pub mod Lawful
mod Shifts
pub mod Splices
pub mod Blocks
