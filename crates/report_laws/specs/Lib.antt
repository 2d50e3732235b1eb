pub mod Fits
pub mod Reasons
