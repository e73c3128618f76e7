pub mod Firsts
pub mod Worth
pub mod Exists
