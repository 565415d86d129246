mod Allowing
mod Waiting
mod Writing
