pub mod Layers
pub mod Tree
pub mod Found
pub mod Changes
pub mod Children
