pub mod PriorityCalls
pub mod PriorityGrowth
pub mod DrrCalls
pub mod Numbers
pub mod DrrGrowth
pub mod Placed
