pub mod Counted
pub mod Laid
pub mod View
pub mod Rests
pub mod Lent
