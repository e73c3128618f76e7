pub mod Stored
pub mod Faults
pub mod Applied
pub mod Kept
pub mod Planned
