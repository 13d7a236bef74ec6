pub mod Entries
pub mod Segments
pub mod RoundTrip
pub mod Chains
pub mod Rule4
pub mod Directories
