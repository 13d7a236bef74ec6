pub mod Fetching
pub mod Loading
pub mod Checking
pub mod Looking
