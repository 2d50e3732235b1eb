pub mod MineLemmas
pub mod WholeBytes
