pub mod ByBytes
pub mod OneOutcome
pub mod Going
pub mod Finding
pub mod Setting
pub mod Telling
pub mod Offering
