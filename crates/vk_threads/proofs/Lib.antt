pub mod Playing
pub mod Full
pub mod Calling
pub mod Clocks
pub mod Ending
pub mod Finishing
pub mod Ticking
pub mod Sitting
mod Looking
pub mod Returned
pub mod Recorded
pub mod Opened
pub mod Dealing
pub mod Dealt
pub mod FewPids
pub mod WholeRun
pub mod Scenarios
pub mod Sending
