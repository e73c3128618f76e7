pub mod Horizons
pub mod Times
pub mod Gauge
pub mod Way
pub mod Laws
pub mod window_numbers
pub mod sim_gauge
pub mod stated_service
