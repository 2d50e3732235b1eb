pub mod Answers
pub mod BackupCfgs
pub mod Kinds
pub mod Lists
pub mod VolumeCfgs
