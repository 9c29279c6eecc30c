pub mod Logging
pub mod Disks
pub mod Starts
pub mod Told
pub mod Completed
pub mod Served
pub mod Boxes
pub mod Failing
