pub mod Numbers
pub mod OrderLemmas
pub mod Ranges
