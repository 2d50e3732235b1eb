pub mod Answers
pub mod Limits
pub mod Values
pub mod LinePlans
pub mod Members
pub mod Head
pub mod Refusals
