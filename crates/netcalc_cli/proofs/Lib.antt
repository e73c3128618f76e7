pub mod ByCommand
pub mod NoWrite
pub mod Replies
pub mod OneCycle
pub mod Equal
pub mod WordLists
pub mod Taking
pub mod Seeds
