pub mod Slots
pub mod Forms
pub mod Follow
pub mod Faults
pub mod Laws
