pub mod Clients
pub mod Talking
pub mod Served
pub mod Tasks
