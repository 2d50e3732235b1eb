pub mod Appends
pub mod ReportLemmas
mod PartedWords
