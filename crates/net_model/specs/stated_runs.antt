pub mod Setups
pub mod CardsAt
pub mod DueSteps
pub mod Simulated
pub mod Laws
pub mod FromTraces
pub mod TimeGrids
