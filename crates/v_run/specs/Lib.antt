pub mod Passages
pub mod Closed
pub mod Jobs
pub mod Outcomes
pub mod Runs
pub mod Ran
pub mod Laws
