pub mod Keys
pub mod Reverse
pub mod Refused
