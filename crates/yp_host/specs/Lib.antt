pub mod Locals
pub mod Anew
pub mod Making
pub mod Transferring
pub mod Connections
pub mod workers
pub mod inside
