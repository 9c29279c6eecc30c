pub mod Listed
pub mod Links
pub mod Listings
pub mod Back
pub mod Refused
pub mod Groups
