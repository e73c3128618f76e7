pub mod SameGathered
pub mod EndSpans
pub mod KnownEnds
pub mod Products
pub mod Loops
pub mod CurvesBelow
pub mod NetCurves
pub mod Missing
