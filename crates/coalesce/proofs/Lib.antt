pub mod ChildLemmas
pub mod FirstLemmas
pub mod KeepLemmas
pub mod NameLemmas
pub mod PlaceLemmas
pub mod SnapshotLemmas
pub mod WayLemmas
