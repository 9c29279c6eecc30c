pub mod Results
pub mod Ledgers
pub mod turns
pub mod inside
