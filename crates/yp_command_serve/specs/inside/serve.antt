pub mod Hosting
pub mod Log
pub mod Serve
