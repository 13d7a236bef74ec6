pub mod Fields
pub mod Play
