mod Behind
mod Dumping
mod LineLists
mod Places
mod Pushing
mod Sampling
mod WordLists
mod Orders
