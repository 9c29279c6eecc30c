pub mod Standings
pub mod Kept
pub mod Walks
pub mod Inside
pub mod Told
