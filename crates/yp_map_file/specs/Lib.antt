pub mod Cells
pub mod Bodies
pub mod Stands
pub mod Commits
pub mod Slots
pub mod Loads
pub mod inside
