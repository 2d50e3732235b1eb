pub mod Gathers
pub mod Finishes
pub mod Told
