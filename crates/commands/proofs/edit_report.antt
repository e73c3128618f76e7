pub mod OneForm
pub mod Floats
