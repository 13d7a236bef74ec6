pub mod Parts
pub mod WindowLaws
pub mod Nests
pub mod NestedWindows
pub mod LevelLaws
