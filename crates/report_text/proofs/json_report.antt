pub mod Floats
pub mod OneForm
pub mod AsciiTexts
