pub mod Callbacks
pub mod Kept
