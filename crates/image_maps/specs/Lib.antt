pub mod Begun
pub mod Maps
pub mod Reading
pub mod Standing
