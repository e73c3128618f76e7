pub mod PriorityLaws
pub mod DrrLaws
pub mod RestLaws
pub mod lines
