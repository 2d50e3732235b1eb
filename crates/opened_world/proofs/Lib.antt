pub mod NamesLemmas
pub mod StepLemmas
pub mod OpensLemmas
pub mod TwiceLemmas
