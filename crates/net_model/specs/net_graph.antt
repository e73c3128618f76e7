pub mod OrderLaws
pub mod Faults
pub mod Waits
pub mod Loops
