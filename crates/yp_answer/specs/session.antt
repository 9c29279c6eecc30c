pub mod Wires
pub mod Progress
pub mod Hosts
pub mod Makes
pub mod LogRuns
pub mod Runs
pub mod Cuts
