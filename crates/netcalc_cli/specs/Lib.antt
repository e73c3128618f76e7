pub mod Commands
pub mod Words
pub mod View
pub mod Files
pub mod Reply
pub mod Counts
pub mod Answered
pub mod Laws
