pub mod Fields
pub mod Walks
mod Counts
pub mod Lawful
pub mod RoundTrip
pub mod Workspace
mod Chains
pub mod Rule4
