pub mod Rows
pub mod Values
pub mod Gives
pub mod Refusals
