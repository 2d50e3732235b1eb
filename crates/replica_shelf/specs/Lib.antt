pub mod Folder
pub mod Saving
