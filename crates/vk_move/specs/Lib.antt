pub mod Moved
pub mod Mover
pub mod Sender
pub mod Due
pub mod Taken
pub mod Begun
pub mod Fitting
pub mod Right
