pub mod Answers
pub mod DiskMetas
pub mod ImageNames
pub mod Kinds
pub mod VolumeMetas
