pub mod exchange
pub mod transfer
pub mod walk
