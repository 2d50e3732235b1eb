pub mod Turns
pub mod Volume
pub mod Run
pub mod Turn
pub mod Serving
pub mod Store
pub mod Joined
