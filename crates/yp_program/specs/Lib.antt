pub mod Asking
pub mod Orders
pub mod Transferring
pub mod Walking
pub mod Commands
pub mod inside
