pub mod FolderFiles
pub mod FolderPaths
