pub mod Begun
pub mod CallBack
pub mod Dials
pub mod Laws
pub mod Requests
pub mod walk
