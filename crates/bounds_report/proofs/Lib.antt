pub mod Digits
pub mod Floats
pub mod Read
pub mod Shown
