mod Joining
pub mod Standing
