pub mod CheckReport
pub mod CheckLaws
