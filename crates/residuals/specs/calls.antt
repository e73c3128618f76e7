pub mod PriorityCalls
pub mod PriorityGrowth
pub mod DrrCalls
pub mod DrrGrowth
pub mod InTurn
