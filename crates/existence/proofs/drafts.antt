pub mod Built
pub mod Folds
pub mod TomlIntegers
pub mod ReadTexts
pub mod FoundCurves
pub mod Standing
pub mod Files
