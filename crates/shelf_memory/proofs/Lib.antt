pub mod KeptLemmas
pub mod NameLemmas
pub mod WrittenLemmas
