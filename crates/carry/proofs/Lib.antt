pub mod Lines
pub mod Carried
pub mod Sound
pub mod Bytes
pub mod Writes
pub mod Altered
pub mod Parted
