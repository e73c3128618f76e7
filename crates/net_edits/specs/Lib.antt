pub mod Refusals
pub mod Lookups
pub mod Values
pub mod Changed
pub mod Edited
pub mod Replies
