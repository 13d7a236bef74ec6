pub mod Made
pub mod Lens
pub mod Fetches
pub mod Steps
pub mod Standings
