pub mod Curves
pub mod Findings
pub mod Statuses
pub mod CellCounts
pub mod RunBounds
pub mod FindingLaws
