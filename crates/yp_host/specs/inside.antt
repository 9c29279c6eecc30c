pub mod Anew
pub mod Locals
pub mod Connections
pub mod workers
