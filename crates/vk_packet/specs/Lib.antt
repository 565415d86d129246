pub mod Laws
pub mod Posts
pub mod Reading
pub mod Rules
pub mod Slots
pub mod Spelling
pub mod Views
