pub mod Frames
pub mod Held
pub mod Plan
pub mod Told
