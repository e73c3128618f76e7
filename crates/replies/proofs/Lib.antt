pub mod FileLemmas
pub mod Fetches
pub mod Ends
pub mod Statuses
