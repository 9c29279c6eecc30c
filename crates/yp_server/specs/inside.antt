pub mod Serving
pub mod Workers
pub mod Counting
pub mod Shares
pub mod Handing
