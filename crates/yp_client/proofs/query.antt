pub mod Putting
pub mod Listing
pub mod Telling
pub mod Completing
