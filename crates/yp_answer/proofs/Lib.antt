pub mod Parts
pub mod Listing
pub mod Rooms
pub mod Itemized
pub mod Streaming
pub mod Fronts
pub mod Puts
pub mod Opened
mod ReadArguments
mod Targets
mod Untaken
mod Overlooked
mod MakeAnswers
