pub mod Telling
pub mod Counting
pub mod Turning
pub mod Leading
pub mod Showing
pub mod Delivering
