pub mod Links
pub mod Jobs
pub mod Closed
pub mod Seats
pub mod Outcomes
pub mod Laws
pub mod Sent
