pub mod Paces
pub mod Groups
pub mod Reached
