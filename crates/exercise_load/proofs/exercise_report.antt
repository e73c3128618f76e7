pub mod Folds
pub mod LargestIs
pub mod OneSummary
pub mod Parts
