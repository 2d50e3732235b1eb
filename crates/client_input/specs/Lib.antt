pub mod Feeding
pub mod Giving
pub mod Inputs
pub mod Replies
