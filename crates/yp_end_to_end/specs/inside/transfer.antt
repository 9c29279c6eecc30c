pub mod Replies
pub mod Laws
pub mod Shown
pub mod Turns
pub mod Runs
