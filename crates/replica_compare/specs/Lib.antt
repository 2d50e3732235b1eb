pub mod Blocks
pub mod Comparing
pub mod Holders
pub mod Least
pub mod Order
