pub mod BytesLemmas
pub mod ChainLemmas
pub mod CharsLemmas
pub mod NameLemmas
pub mod RangeLemmas
