pub mod Shares
pub mod Failures
pub mod Moments
pub mod Sources
pub mod Debits
pub mod Tracing
