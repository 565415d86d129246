pub mod Answers
mod Gathering
pub mod Inputs
mod LineEnds
pub mod PieceTexts
