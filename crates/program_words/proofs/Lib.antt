pub mod AskedLemmas
pub mod FaultlessUses
pub mod FaultlessWalk
pub mod FaultlessWords
pub mod LimitLemmas
pub mod NumberLemmas
pub mod OnLiterals
