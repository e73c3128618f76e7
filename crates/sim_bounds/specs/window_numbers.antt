pub mod CurveEnds
pub mod Rated
