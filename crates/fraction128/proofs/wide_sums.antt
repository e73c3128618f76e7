pub mod Numbers
pub mod Reduced
pub mod Added
pub mod Steps
