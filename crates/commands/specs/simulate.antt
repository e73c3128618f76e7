pub mod OnTraces
pub mod RunCounts
pub mod Laws
