pub mod Links
pub mod Places
pub mod Hubs
pub mod Kept
pub mod Counting
pub mod Posts
pub mod Stops
