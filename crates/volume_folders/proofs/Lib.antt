pub mod AlikeLemmas
pub mod CleanLemmas
pub mod SavedLemmas
pub mod SoundLemmas
pub mod StepLemmas
pub mod TwiceLemmas
