pub mod Copies
pub mod InTurn
pub mod Refused
pub mod Pages
