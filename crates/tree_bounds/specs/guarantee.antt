pub mod Routes
pub mod Guarantee
pub mod Causes
pub mod Roots
pub mod Loads
