pub mod Asked
pub mod Complete
