pub mod FifoLaw
pub mod FifoClasses
pub mod FifoCurves
pub mod TestStarts
pub mod FifoGrowth
