pub mod Names
pub mod Blocks
pub mod Backups
pub mod Faults
