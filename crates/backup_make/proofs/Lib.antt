pub mod KeptLemmas
pub mod BackupLemmas
mod DiffersLemmas
mod StartLemmas
mod GatherLemmas
mod DiskLemmas
pub mod MadeLemmas
