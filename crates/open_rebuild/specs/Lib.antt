pub mod Rebuild
pub mod Listed
pub mod Frozen
pub mod Claim
pub mod Pages
