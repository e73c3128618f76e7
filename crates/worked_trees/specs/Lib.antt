pub mod PacedFork
pub mod OwnPeriod
