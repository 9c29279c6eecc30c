pub mod DiskLaws
pub mod Inboxes
pub mod Streams
pub mod Texts
pub mod Trails
