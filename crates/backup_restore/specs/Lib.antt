pub mod Errors
pub mod Listed
pub mod Listing
pub mod ReadCfg
pub mod Restored
pub mod Restoring
