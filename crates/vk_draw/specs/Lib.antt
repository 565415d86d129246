pub mod Frames
pub mod Playing
pub mod Rows
pub mod Statuses
pub mod Top
pub mod Words
pub mod Work
