pub mod Followed
pub mod PageMap
pub mod Requests
pub mod Scheduled
pub mod Served
pub mod Written
