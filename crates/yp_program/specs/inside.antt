pub mod Joined
pub mod Commands
