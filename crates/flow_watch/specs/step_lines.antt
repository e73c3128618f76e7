pub mod Lows
pub mod Places
pub mod Lines
