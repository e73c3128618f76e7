pub mod OnMeasures
pub mod MeasureCauses
pub mod Laws
pub mod MeasureCounts
