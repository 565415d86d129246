pub mod Failures
pub mod Negatives
pub mod Turns
pub mod Arriving
pub mod Unseen
pub mod Near
pub mod Holders
