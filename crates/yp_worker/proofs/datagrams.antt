mod Answering
mod Sending
pub mod Carrying
mod Queues
mod Running
