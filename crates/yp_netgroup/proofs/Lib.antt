mod Cuts
mod Deciding
mod Ends
mod NameBytes
mod NamesMet
mod Spelled
