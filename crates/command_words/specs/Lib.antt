pub mod Lines
pub mod Apps
pub mod Reads
