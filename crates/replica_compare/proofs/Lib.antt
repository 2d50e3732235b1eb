pub mod HolderLemmas
pub mod OrderLemmas
pub mod ReadLemmas
pub mod ShapeLemmas
