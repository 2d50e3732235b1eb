pub mod Fields
pub mod OneSpelling
pub mod OneAnswer
