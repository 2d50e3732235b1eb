pub mod RunLemmas
pub mod PartLemmas
pub mod PlaceLemmas
pub mod LoneLemmas
mod ByteLemmas
