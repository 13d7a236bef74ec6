pub mod Spelled
pub mod Pieces
pub mod Lengths
pub mod Counted
pub mod Placing
