pub mod Counts
pub mod Crossing
pub mod Entries
pub mod Fetching
pub mod Posted
pub mod Posting
pub mod Stopping
pub mod Waits
