mod Drafts
mod StepLines
pub mod Traces
