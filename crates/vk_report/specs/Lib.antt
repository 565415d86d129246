pub mod Histories
pub mod Report
pub mod Views
