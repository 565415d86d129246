pub mod Lanes
pub mod Law
pub mod Marks
pub mod Places
pub mod Svg
pub mod Words
