pub mod Lines
pub mod OnFaults
pub mod OneReply
pub mod Causes
