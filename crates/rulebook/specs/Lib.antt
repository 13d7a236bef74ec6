pub mod Entries
pub mod Headers
pub mod Names
pub mod First
pub mod Order
