pub mod Callers
pub mod Served
pub mod Once
pub mod Sample
pub mod Session
pub mod serve
pub mod inside
