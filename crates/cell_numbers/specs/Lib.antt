pub mod TableValues
pub mod Shapes
pub mod Chosen
