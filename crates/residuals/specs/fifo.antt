pub mod Laws
pub mod Curves
pub mod Growth
