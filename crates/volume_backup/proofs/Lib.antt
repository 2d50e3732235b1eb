pub mod Tells
pub mod Worlds
pub mod Covers
pub mod Kept
