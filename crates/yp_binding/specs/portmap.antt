pub mod Numbers
pub mod Registry
pub mod Requests
pub mod Replies
pub mod Asking
