pub mod Registry
pub mod Replies
