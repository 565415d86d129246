pub mod Driving
pub mod Storms
pub mod Tasks
pub mod Told
