pub mod Catalogues
pub mod Logs
pub mod Views
pub mod Between
pub mod readers
pub mod inside
