pub mod Floppies
pub mod Held
pub mod Buffers
