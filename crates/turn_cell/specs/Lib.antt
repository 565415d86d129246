pub mod History
pub mod Rooms
pub mod Accounts
pub mod Standings
pub mod Turns
pub mod Seats
pub mod Held
pub mod Entries
