pub mod Build
pub mod Check
pub mod Revnet
pub mod Xfr
pub mod walk
