pub mod Hosts
pub mod Runs
pub mod Errands
pub mod Cuts
pub mod Puts
pub mod Makes
