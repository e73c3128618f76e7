pub mod Replying
pub mod OneReply
pub mod Causes
pub mod Within
