pub mod FolderLemmas
pub mod ImageLemmas
pub mod ListingLemmas
pub mod MetaLemmas
pub mod PieceLemmas
pub mod RisingLemmas
pub mod SnapshotLemmas
pub mod ToldLemmas
