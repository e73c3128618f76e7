pub mod Causes
pub mod FirstFaults
pub mod OneRefusal
pub mod OneReply
pub mod BadTraces
pub mod Statuses
