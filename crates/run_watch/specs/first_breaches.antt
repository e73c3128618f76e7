pub mod Sizes
pub mod Firsts
pub mod Kept
