pub mod BlockLemmas
pub mod ChainLemmas
pub mod ListLemmas
pub mod PlaceLemmas
pub mod ReadLemmas
