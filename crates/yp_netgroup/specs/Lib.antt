pub mod Parts
pub mod Reach
pub mod Decided
pub mod reverse
pub mod inside
