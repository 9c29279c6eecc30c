pub mod Working
pub mod Receptions
pub mod Summing
pub mod datagrams
pub mod inside
