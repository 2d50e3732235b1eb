pub mod Lists
pub mod Copies
pub mod Last
pub mod Place
pub mod Replied
pub mod Seats
pub mod Served
pub mod Joined
