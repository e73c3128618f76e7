pub mod pointwise
pub mod running
pub mod CurveCalls
