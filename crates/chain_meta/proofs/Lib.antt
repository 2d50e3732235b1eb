mod CutLemmas
pub mod DiskLemmas
mod FileLemmas
mod Found
mod KindLemmas
mod OneAnswer
mod OneKind
mod ShortLemmas
pub mod VolumeLemmas
