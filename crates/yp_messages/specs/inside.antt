pub mod Messages
pub mod MapLists
pub mod Transfers
pub mod Pushes
pub mod Bindings
