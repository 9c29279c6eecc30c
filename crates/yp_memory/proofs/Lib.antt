mod Crashes
mod DiskCalls
mod Pieces
mod Waiting
