pub mod Account
pub mod Known
pub mod Rule
pub mod Turns
pub mod Seats
