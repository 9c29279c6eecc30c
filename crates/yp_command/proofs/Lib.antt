pub mod Numerals
pub mod Named
pub mod Reading
