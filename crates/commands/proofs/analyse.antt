pub mod OneReply
pub mod Unbounded
pub mod Causes
