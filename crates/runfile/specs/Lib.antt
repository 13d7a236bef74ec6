pub mod Faults
pub mod Orders
pub mod Pieces
pub mod Items
pub mod Report
