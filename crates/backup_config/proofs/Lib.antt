mod BackupLemmas
mod Found
mod ListLemmas
pub mod MemberLemmas
mod OneAnswer
mod ShortLemmas
mod SizeLemmas
mod VolumeLemmas
mod WrittenLemmas
