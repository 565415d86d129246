mod LastWords
mod Leading
pub mod Pieces
pub mod RemainingSteps
pub mod StepTexts
pub mod StepWords
pub mod TraceLines
mod TraceTexts
