pub mod Buffers
pub mod Laws
pub mod Remaining
pub mod Steps
pub mod Texts
pub mod Traces
