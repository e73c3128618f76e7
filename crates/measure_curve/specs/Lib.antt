pub mod Windows
pub mod Limits
pub mod Grids
pub mod Bursts
pub mod Laws
pub mod Scans
pub mod Staircases
