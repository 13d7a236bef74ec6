pub mod Rules
pub mod Faults
pub mod Entries
pub mod Segments
pub mod Home
pub mod Levels
pub mod Transfers
pub mod Initial
