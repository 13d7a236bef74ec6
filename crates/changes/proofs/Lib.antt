pub mod Written
pub mod Imaged
pub mod Clean
