pub mod Encoding
pub mod Homes
pub mod Stretches
pub mod Initials
