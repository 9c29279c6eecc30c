pub mod Again
pub mod CutExists
pub mod CutHead
pub mod CutKinds
pub mod CutNext
pub mod CutOne
pub mod CutPieces
pub mod Fragments
pub mod Giving
pub mod Holding
pub mod Coming
pub mod Sending
pub mod Stream
pub mod Whole
pub mod Words
mod Seeing
mod Leading
