pub mod Building
pub mod Opening
pub mod Reading
