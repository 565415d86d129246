pub mod Border
pub mod Held
pub mod Opening
