pub mod Events
pub mod FrontLines
pub mod Lawfulness
pub mod Leading
pub mod Pieces
pub mod ReadAgain
pub mod RemainingEvents
pub mod Wanted
