pub mod Simulating
pub mod Stepping
pub mod Fresh
