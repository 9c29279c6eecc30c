pub mod Kept
pub mod Dispatch
pub mod Unparsed
pub mod Sourced
pub mod Walked
pub mod Sending
pub mod Comparing
pub mod Noting
