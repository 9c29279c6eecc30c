pub mod Standing
pub mod Shared
pub mod Starts
pub mod Rising
pub mod Begins
pub mod Laws
pub mod sharing
