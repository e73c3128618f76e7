pub mod Steps
pub mod Begun
pub mod Outcomes
pub mod PutBack
pub mod Lost
pub mod Ordered
