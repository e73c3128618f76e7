pub mod Digits
pub mod Cut
pub mod NameTexts
