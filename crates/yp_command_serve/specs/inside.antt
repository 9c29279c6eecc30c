pub mod Once
pub mod Session
pub mod serve
