pub mod Folders
pub mod Layers
pub mod Ordered
pub mod Parents
pub mod Rings
pub mod Turns
