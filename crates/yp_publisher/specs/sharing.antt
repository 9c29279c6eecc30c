pub mod Shares
pub mod Failures
pub mod Sources
pub mod Tracing
