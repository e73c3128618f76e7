pub mod Replaced
pub mod Sites
