pub mod GridSteps
pub mod Cycles
pub mod Stalls
pub mod Firsts
pub mod Openings
pub mod StationSteps
pub mod Visits
