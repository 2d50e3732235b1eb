pub mod Written
pub mod SameVolume
pub mod SummaryLemmas
pub mod HeadsLemmas
