pub mod Words
pub mod office
