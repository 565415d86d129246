mod Answering
mod Kept
