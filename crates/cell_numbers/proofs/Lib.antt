pub mod Choosing
pub mod LinkRates
pub mod OnCells
