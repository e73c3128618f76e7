pub mod Paths
pub mod Tracking
pub mod TrackedSteps
pub mod Deciding
pub mod Breaking
pub mod WholeRuns
