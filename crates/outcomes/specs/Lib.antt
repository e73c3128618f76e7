pub mod Stages
pub mod Calls
pub mod Spending
