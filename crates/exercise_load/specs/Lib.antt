pub mod Draws
pub mod Drawn
pub mod Bounds
pub mod Workloads
pub mod Loads
pub mod WorkloadLaws
pub mod exercise_report
