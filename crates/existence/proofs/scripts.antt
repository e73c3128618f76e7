pub mod Tests
pub mod Numbers
pub mod Found
pub mod Answered
pub mod Replies
