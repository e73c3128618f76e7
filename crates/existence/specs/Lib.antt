pub mod curves
pub mod closures
pub mod tables
pub mod drafts
pub mod reports
pub mod edits
pub mod scripts
pub mod texts
