mod Dots
mod Fitting
mod Linking
mod Looking
mod Meeting
mod Pieces
mod Leading
pub mod Joining
mod Drafting
mod Keyed
mod Handing
