pub mod Joined
pub mod InTurn
