pub mod Explained
pub mod Observed
pub mod Pages
pub mod Reading
pub mod Statuses
pub mod Told
pub mod Top
pub mod Words
