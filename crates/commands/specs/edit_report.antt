pub mod Said
pub mod EditReport
