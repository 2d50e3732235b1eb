pub mod Checks
pub mod Finding
pub mod Images
pub mod Listing
pub mod Pieces
pub mod Snapshots
pub mod Told
