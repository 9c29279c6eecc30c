pub mod Composing
pub mod Hosted
