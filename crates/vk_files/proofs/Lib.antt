pub mod Answering
pub mod Choices
pub mod Directories
mod Examples
pub mod NumberedBlocks
pub mod NumberedVolumes
pub mod Placing
pub mod Stepping
