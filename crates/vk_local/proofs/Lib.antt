mod Copied
pub mod Decided
mod ExitRules
mod ForwardRules
mod Forwarded
mod Fronts
pub mod Leaves
pub mod Leaving
mod MoveRules
mod Moved
pub mod PidsStay
mod ReceiveRules
pub mod Received
mod Replied
mod ReplyRules
pub mod Rules
mod Segments
mod SendRules
mod Sent
pub mod Taken
