mod Reasons
mod Causing
mod Learning
mod Hosting
mod Charging
mod Dialing
mod Reaching
mod Leading
mod Sourcing
mod Aging
mod Using
pub mod Stating
pub mod Noting
mod Knowing
mod Queues
pub mod Telling
