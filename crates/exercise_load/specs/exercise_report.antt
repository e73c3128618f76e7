pub mod Largest
pub mod Summary
pub mod SummaryLaws
