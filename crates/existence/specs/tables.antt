pub mod Networks
pub mod Found
pub mod Formulas
pub mod Tables
