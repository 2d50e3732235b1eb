pub mod Ended
pub mod Tasks
