pub mod Names
pub mod Opening
