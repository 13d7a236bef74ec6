pub mod Walking
pub mod Starts
pub mod Finding
pub mod Tests
pub mod Counting
pub mod Contiguity
pub mod Breaking
pub mod Sounding
