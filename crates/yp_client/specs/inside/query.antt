pub mod Printed
pub mod Faults
pub mod Answers
pub mod Scenes
pub mod Complete
