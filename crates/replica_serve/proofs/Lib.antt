pub mod PartLemmas
pub mod FrameCalls
pub mod Serving
pub mod Ending
