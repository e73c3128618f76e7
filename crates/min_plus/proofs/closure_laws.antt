pub mod TimeLists
pub mod StarSums
pub mod CopiedParts
pub mod KeptShapes
pub mod StarFolding
