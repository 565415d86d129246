pub mod Access
pub mod Calls
pub mod Done
pub mod Exits
pub mod Rules
pub mod Takes
