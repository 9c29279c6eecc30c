pub mod Callbacks
pub mod Sendings
pub mod Pushers
pub mod Printed
pub mod Slaves
