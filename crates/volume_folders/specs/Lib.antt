pub mod Heads
pub mod Opened
pub mod Reasons
pub mod Saved
pub mod Sound
pub mod Steps
