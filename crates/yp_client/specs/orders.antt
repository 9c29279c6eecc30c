pub mod InTurn
pub mod Asked
pub mod Lines
pub mod Scenes
pub mod Complete
