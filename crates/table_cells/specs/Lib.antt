pub mod Words
pub mod Amounts
pub mod Names
