pub mod Reach
pub mod Decided
pub mod Member
pub mod Who
pub mod Seen
pub mod reverse
