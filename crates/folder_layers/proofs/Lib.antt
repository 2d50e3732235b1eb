pub mod FitLemmas
pub mod LayerNameLemmas
pub mod OrderedLemmas
pub mod ParentLemmas
pub mod RingLemmas
pub mod TurnLemmas
pub mod WalkLemmas
