pub mod Others
pub mod Fronts
pub mod Cleared
pub mod Wanting
