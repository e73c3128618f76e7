pub mod Turns
pub mod BestSplits
