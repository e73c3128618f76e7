pub mod Reports
pub mod Measured
pub mod Measures
