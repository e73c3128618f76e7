pub mod Checked
pub mod OnRuns
pub mod CheckCounts
pub mod Laws
