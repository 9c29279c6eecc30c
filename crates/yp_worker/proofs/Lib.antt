mod Growing
mod Receiving
mod Summing
mod Guesting
mod Listenings
mod Attending
mod Crossing
