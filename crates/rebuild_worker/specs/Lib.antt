pub mod Frames
pub mod Copying
pub mod Told
pub mod Rooms
