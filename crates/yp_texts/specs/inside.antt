pub mod Rows
pub mod Pushes
pub mod Samples
pub mod After
pub mod Laws
