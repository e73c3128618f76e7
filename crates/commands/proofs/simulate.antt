pub mod Named
pub mod Counting
pub mod OneReply
pub mod Status
pub mod OpenServers
pub mod Causes
pub mod Within
