pub mod BestSplits
pub mod LineSplits
