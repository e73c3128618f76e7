pub mod RunRows
pub mod Runs
pub mod Rounds
pub mod ReadRuns
pub mod OneReading
