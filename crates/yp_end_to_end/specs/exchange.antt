pub mod Told
pub mod Answered
pub mod Runs
pub mod LogRuns
