pub mod Telling
pub mod Mapper
pub mod Portmap
pub mod Bind
pub mod Finding
pub mod Push
pub mod inside
