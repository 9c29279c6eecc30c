pub mod Numbers
pub mod Statuses
pub mod Messages
pub mod MapLists
pub mod Transfers
pub mod Pushes
pub mod Bindings
pub mod inside
