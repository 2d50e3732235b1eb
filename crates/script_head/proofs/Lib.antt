pub mod Readers
pub mod OneValue
pub mod Lists
pub mod OneAnswer
pub mod LinePlansLemmas
pub mod Known
pub mod EachLine
