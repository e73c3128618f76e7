pub mod OneKind
pub mod Asked
