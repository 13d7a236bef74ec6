pub mod Walks
pub mod Entries
pub mod Finds
pub mod Rules
pub mod Sounds
