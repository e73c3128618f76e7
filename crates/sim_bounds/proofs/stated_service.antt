pub mod Windows
pub mod Gains
pub mod Driven
pub mod Kept
