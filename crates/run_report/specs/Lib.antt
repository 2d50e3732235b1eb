pub mod Lines
pub mod Report
pub mod Sessions
pub mod Summary
