pub mod Mailing
pub mod Queues
pub mod Serving
pub mod Carrying
