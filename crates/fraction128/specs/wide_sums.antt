pub mod Words
pub mod Factors
pub mod Sums
