mod CfgLemmas
mod LineLemmas
mod NamesLemmas
pub mod OneAnswer
mod OrderLemmas
mod RestoreLemmas
mod WholeLemmas
