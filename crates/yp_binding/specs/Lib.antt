pub mod Events
pub mod Rounds
pub mod Requests
pub mod Replies
pub mod Kept
pub mod portmap
pub mod inside
