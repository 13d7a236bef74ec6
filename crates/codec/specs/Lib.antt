pub mod Digits
pub mod Dates
pub mod Names
pub mod Words
