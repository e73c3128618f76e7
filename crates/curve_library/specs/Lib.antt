pub mod Causes
pub mod Parts
pub mod Shares
pub mod Listed
