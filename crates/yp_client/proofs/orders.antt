pub mod Turns
pub mod Going
pub mod Telling
pub mod Completing
pub mod Read
pub mod Short
pub mod Level
