pub mod Chains
pub mod Pages
pub mod Places
