pub mod words
pub mod Files
pub mod Calls
pub mod Reply
pub mod Laws
