pub mod Spelling
pub mod Reading
pub mod Writing
pub mod Cursor
pub mod Laws
