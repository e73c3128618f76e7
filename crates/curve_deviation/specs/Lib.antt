pub mod Cells
pub mod Parts
pub mod Rises
pub mod Sights
pub mod Lags
pub mod Stages
