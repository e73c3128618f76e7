pub mod Runs
pub mod Gauge
pub mod Named
pub mod Paces
