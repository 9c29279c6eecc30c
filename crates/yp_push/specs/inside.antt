pub mod Results
pub mod Ledgers
pub mod Settling
pub mod Kept
pub mod turns
