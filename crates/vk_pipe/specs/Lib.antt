pub mod Kept
pub mod Pipes
pub mod Requests
pub mod Standing
pub mod Told
