pub mod Lists
pub mod Steps
pub mod Pings
pub mod Keeping
