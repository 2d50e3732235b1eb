pub mod Guards
pub mod MaintGuards
pub mod MaintTakes
pub mod RebuildTakes
pub mod BackupTakes
pub mod Takes
