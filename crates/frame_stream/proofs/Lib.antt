pub mod FramesLemmas
pub mod ReadingLemmas
pub mod ReadingLaws
