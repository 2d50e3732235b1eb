pub mod Back
pub mod Told
