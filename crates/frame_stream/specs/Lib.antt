pub mod Asked
pub mod Frames
pub mod Reading
pub mod Replies
