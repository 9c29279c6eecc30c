pub mod Lines
pub mod Disks
pub mod Status
pub mod Files
pub mod Seeing
pub mod Rows
