pub mod Hosts
pub mod Outcomes
