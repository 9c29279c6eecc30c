pub mod Mapped
pub mod Again
pub mod Rising
pub mod NoFault
pub mod Starts
pub mod Fronts
pub mod Adding
