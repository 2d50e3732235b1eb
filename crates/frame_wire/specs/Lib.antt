pub mod Spelling
pub mod Decoding
