pub mod GuestStates
pub mod Receptions
pub mod Summing
pub mod Laws
pub mod Guests
pub mod Listenings
pub mod Mailing
pub mod Queues
