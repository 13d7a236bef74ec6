pub mod Codes
pub mod Parts
pub mod Spellings
pub mod Tens
pub mod Written
