pub mod Loading
pub mod Storing
pub mod Finding
pub mod Suiting
pub mod Editing
