pub mod Read
pub mod Scheduled
pub mod Waits
pub mod Written
