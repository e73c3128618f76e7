pub mod Places
pub mod SoFar
pub mod Scan
pub mod Firsts
pub mod Kept
pub mod Running
pub mod Steps
pub mod Taking
