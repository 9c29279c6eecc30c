pub mod Sources
pub mod Mails
pub mod Laws
