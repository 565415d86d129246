mod Again
mod Appended
pub mod Placing
mod Stands
mod Written
