pub mod Loaded
pub mod Scheduled
pub mod Volumes
