pub mod BackLemmas
pub mod DirtyLemmas
pub mod FileLemmas
pub mod FitLemmas
pub mod LookLemmas
pub mod NodeLemmas
pub mod OpensLemmas
pub mod PairLemmas
