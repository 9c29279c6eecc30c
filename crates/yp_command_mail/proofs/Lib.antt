pub mod Told
pub mod Answered
pub mod Calling
pub mod Going
pub mod Lines
pub mod Doing
pub mod Pushed
