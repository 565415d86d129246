pub mod Fit
pub mod Held
pub mod Opening
pub mod Rules
pub mod Stands
pub mod Tables
pub mod Ticks
