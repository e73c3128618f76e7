pub mod Numbers
pub mod Ranges
pub mod Lines
pub mod Data
pub mod Laws
