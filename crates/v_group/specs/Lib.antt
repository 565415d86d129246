pub mod Codes
pub mod Grouped
pub mod Scheduled
