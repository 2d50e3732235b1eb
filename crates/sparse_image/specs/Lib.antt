pub mod Disk
pub mod Image
pub mod Whole
pub mod Listed
