pub mod RunsLemmas
pub mod Prefixes
pub mod LongestRuns
pub mod TextTells
