pub mod Parts
pub mod Records
pub mod Windows
pub mod Nested
pub mod Mounts
pub mod LevelStacks
