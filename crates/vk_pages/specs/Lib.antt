pub mod Any
pub mod Clients
pub mod Messages
pub mod Pages
pub mod Programs
pub mod Servers
