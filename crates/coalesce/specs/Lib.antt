pub mod Folding
pub mod Search
pub mod Way
