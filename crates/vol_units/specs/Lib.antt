pub mod Bytes
pub mod Chain
pub mod Chars
pub mod Name
pub mod Range
pub mod Size
pub mod Time
