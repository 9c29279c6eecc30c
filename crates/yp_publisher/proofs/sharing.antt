pub mod Installing
pub mod Learning
mod Failing
mod Telling
mod Leading
mod Sourcing
mod Tracing
