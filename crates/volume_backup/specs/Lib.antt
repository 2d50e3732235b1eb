pub mod Copies
pub mod Answers
