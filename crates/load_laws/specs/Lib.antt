pub mod Load
pub mod Result
