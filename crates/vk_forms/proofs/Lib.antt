pub mod Farthest
pub mod Following
pub mod Grammar
pub mod Marks
pub mod Parts
pub mod Telling
