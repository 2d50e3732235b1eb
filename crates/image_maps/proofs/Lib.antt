pub mod BegunLemmas
pub mod Cuts
pub mod DigitLemmas
pub mod MapLemmas
pub mod StandingLemmas
