pub mod LoadLemmas
pub mod TextLemmas
