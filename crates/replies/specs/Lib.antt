pub mod Replies
pub mod View
pub mod Given
pub mod Ended
