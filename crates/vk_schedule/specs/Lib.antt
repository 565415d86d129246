pub mod Lawful
pub mod Laws
pub mod Remaining
pub mod Schedule
pub mod Spelling
pub mod Views
