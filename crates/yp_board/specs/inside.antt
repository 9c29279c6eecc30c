pub mod Catalogues
pub mod Histories
pub mod Catalog
pub mod PlainBoard
pub mod readers
