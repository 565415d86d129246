pub mod Any
pub mod Laws
pub mod Requests
pub mod Servers
pub mod Tables
