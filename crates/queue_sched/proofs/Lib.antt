pub mod WaitingLemmas
pub mod PickLemmas
pub mod DrrLemmas
pub mod InTurnSteps
pub mod DrrSteps
pub mod Fresh
