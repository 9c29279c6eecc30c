pub mod Lines
pub mod Faults
pub mod Asked
pub mod Scenes
pub mod Complete
