pub mod Joined
pub mod Routed
pub mod Views
pub mod CurvesRead
pub mod Parts
