pub mod exchange
pub mod transfer
pub mod walk
pub mod inside
