pub mod Forms
pub mod Words
pub mod office
pub mod inside
