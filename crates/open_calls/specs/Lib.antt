pub mod Calls
pub mod Clients
pub mod Starts
pub mod Due
pub mod Whole
pub mod Maint
