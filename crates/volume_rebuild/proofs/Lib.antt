pub mod Bare
pub mod Copied
pub mod Left
pub mod Order
pub mod Promoted
