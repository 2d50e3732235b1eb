pub mod DiskLemmas
pub mod ImageLemmas
pub mod TableLemmas
pub mod ListedLemmas
pub mod FillLemmas
