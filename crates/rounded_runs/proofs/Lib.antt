pub mod Curves
pub mod Units
pub mod Faster
pub mod Ports
pub mod Runs
