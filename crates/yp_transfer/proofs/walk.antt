pub mod Rooms
pub mod Delivering
pub mod Along
