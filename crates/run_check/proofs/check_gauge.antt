pub mod Loops
pub mod Held
pub mod Fitting
pub mod Assembled
