pub mod Rounds
pub mod Requests
pub mod Replies
pub mod Standings
pub mod Kept
pub mod portmap
