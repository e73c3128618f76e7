pub mod SmallParts
pub mod Elements
pub mod Stars
pub mod Started
pub mod Folds
