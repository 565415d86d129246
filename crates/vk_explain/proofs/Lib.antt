mod Answered
mod Explains
pub mod Sighted
