pub mod Spelling
pub mod Rules
pub mod Reading
pub mod Law
