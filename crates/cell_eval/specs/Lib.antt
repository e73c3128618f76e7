pub mod Tallies
pub mod Sharing
pub mod Recent
pub mod Partial
pub mod Parts
pub mod Evaluates
pub mod flow_analysis
