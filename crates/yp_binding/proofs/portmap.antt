mod Differing
mod Repeating
mod Putting
