mod Acted
pub mod Acting
pub mod Behind
pub mod Chosen
mod Drawn
mod Emitted
mod Coming
mod Counted
pub mod Fronts
mod Kept
mod Opening
mod Places
mod Playing
mod SoFar
