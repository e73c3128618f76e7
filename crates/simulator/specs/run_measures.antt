pub mod Numbered
pub mod Worst
pub mod Tallies
pub mod Laws
pub mod Peaks
pub mod Gauges
pub mod Gauged
pub mod Levels
