pub mod Counting
pub mod OnFaults
pub mod Causes
pub mod OneReply
pub mod Verdicts
pub mod Within
pub mod Recorded
