pub mod Faults
pub mod Written
pub mod MemoryFiles
pub mod MemoryBytes
pub mod Files
pub mod Fetching
