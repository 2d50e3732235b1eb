pub mod CallLemmas
pub mod ClearLemmas
pub mod FileLemmas
pub mod FolderLemmas
pub mod ImageLemmas
pub mod PartLemmas
pub mod SpanLemmas
