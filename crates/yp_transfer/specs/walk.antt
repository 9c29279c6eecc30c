pub mod Standings
pub mod Schedules
pub mod Walks
