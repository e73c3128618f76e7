pub mod InTurn
pub mod PriorityLaw
pub mod RestLaw
pub mod Owed
pub mod Turns
pub mod Along
pub mod Shares
pub mod DrrLaw
