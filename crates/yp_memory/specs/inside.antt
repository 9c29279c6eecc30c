pub mod Mem
pub mod MemDial
pub mod MemDisk
pub mod MemDiskLaws
pub mod MemSteps
pub mod MemInbox
pub mod MemHall
